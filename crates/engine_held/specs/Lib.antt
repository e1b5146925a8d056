pub mod levels
pub mod history
pub mod supply
