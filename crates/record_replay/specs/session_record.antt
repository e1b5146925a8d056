pub mod KeptFrames
pub mod KeptFrameLaws
