pub mod Held
pub mod Reading
pub mod ReadingLaws
pub mod PhaseNumbers
pub mod Opening
pub mod Demands
