pub mod Front
pub mod Ranked
