pub mod PricesThatFall
