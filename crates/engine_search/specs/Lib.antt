pub mod ordering
pub mod rows_behind
pub mod tally
pub mod searching
pub mod selection
