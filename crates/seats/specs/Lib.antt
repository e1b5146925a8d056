pub mod Rights
pub mod RightLaws
pub mod seat_numbers
pub mod session_lines
