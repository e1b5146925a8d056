pub mod Lows
pub mod PriceLaws
