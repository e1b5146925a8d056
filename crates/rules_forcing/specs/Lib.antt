pub mod Game
pub mod GameLaws
pub mod SimulationLaws
pub mod Forcing
pub mod ForcingLaws
pub mod ForcingSample
