pub mod ByProject
pub mod ByProjectLaws
pub mod Reading
pub mod Words
