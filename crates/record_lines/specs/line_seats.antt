pub mod FrameParts
pub mod FramePartLaws
