pub mod Course
pub mod HighLow
pub mod Supply
pub mod ClosingPrice
pub mod Second
