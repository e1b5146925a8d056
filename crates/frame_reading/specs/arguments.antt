pub mod FrameFields
pub mod FieldColumns
pub mod Stepping
pub mod Registering
