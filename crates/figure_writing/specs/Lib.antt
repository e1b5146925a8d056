pub mod lent_numbers
pub mod curve_points
pub mod settlement_figures
pub mod reading_figures
pub mod Writes
