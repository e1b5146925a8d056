pub mod closing_entries
pub mod moves
