pub mod Entries
pub mod TakenBack
pub mod TakenBackLaws
pub mod TakenBackSample
