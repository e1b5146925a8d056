pub mod AwardLines
