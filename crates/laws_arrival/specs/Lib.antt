pub mod cancelling
pub mod arrival
