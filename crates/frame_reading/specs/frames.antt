pub mod Decoded
pub mod FixedFields
pub mod KindsRead
