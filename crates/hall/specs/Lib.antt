pub mod Through
pub mod ThroughLaws
pub mod seat_readings
pub mod hall_readings
