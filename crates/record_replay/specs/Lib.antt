pub mod Replayed
pub mod host_numbers
pub mod record_auction
pub mod record_forcing
pub mod session_record
