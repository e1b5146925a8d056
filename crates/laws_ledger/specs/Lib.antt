pub mod Sound
pub mod Parts
pub mod StepLaws
pub mod LodgedLaws
pub mod clearing
pub mod reachable
pub mod awards
