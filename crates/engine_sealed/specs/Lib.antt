pub mod sealed_checks
pub mod sealed_order
pub mod sealed_awards
pub mod sealed_auction
