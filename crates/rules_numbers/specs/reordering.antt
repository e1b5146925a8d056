pub mod Exchanges
pub mod ExchangeLaws
