pub mod Settled
pub mod SettledLaws
