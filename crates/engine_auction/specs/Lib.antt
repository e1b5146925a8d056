pub mod Holds
pub mod PhaseHeld
pub mod Called
pub mod CalledLaws
pub mod Parts
pub mod Storing
pub mod Decided
