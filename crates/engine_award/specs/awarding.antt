pub mod Choosing
pub mod Awarding
pub mod AwardingLaws
