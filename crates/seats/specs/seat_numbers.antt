pub mod ByteSeats
pub mod ByteSeatLaws
