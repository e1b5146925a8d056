pub mod Numbers
pub mod Putting
