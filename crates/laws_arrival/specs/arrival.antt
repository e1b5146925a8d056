pub mod Arrival
pub mod WithAnswers
pub mod ArrivalLaws
pub mod LineLaws
pub mod WordsDecide
pub mod ArrivalSample
pub mod ReorderedSample
