pub mod readings
pub mod rivals
pub mod forcing_checks
pub mod forcing
