pub mod Readings
pub mod PreviewLaws
