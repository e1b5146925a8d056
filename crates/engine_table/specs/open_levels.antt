pub mod Open
pub mod LastDevelopers
pub mod Tabled
