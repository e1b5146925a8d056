pub mod Held
pub mod Sought
