pub mod Reading
pub mod Entries
pub mod EntryLaws
