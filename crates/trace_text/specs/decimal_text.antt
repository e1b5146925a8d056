pub mod Decimal
pub mod DecimalLaws
pub mod Items
pub mod Puts
pub mod PutsLaws
