pub mod Progress
pub mod Begins
