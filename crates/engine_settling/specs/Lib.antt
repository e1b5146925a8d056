pub mod Settles
pub mod Kept
pub mod KeptLaws
