pub mod TakingOrder
pub mod Fields
