pub mod price
pub mod second_price
pub mod clearing
