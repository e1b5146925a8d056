pub mod frames
pub mod arguments
