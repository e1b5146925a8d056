pub mod AwardLaws
pub mod Declared
pub mod OpenLevels
pub mod Winners
pub mod ParticipationLaws
