pub mod ReadBack
pub mod AwardRecords
pub mod RecordOrder
pub mod RecordsInWords
pub mod Stated
pub mod StatedLaws
pub mod Determined
pub mod WordsDecide
