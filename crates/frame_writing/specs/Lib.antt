pub mod Encodes
pub mod EncodesLaws
pub mod frame_sizes
pub mod each_call
