pub mod MayHold
pub mod Firsts
