pub mod table
pub mod reached_levels
pub mod open_levels
pub mod counting
