pub mod closing_preview
pub mod Told
pub mod ToldLaws
