pub mod line_calls
pub mod line_seats
pub mod record_start
