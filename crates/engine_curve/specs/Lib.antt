pub mod kept_curve
pub mod highs_and_lows
pub mod curve_closing
