pub mod closing_checks
pub mod clock
pub mod registrations
pub mod closing_figures
