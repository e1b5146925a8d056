pub mod Calls
mod SettingUp
mod Registering
mod Opening
pub mod DeveloperHeld
mod Moving
mod ClosingRound
