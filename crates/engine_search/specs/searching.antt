pub mod Going
pub mod Searches
