pub mod FrameSizes
pub mod FrameSizeLaws
