pub mod awarding
pub mod award_records
pub mod participation
