pub mod Version
pub mod Writing
pub mod Forcing
pub mod Sealing
