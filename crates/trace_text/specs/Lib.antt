pub mod Words
pub mod WordsLaws
pub mod Shown
pub mod decimal_text
pub mod award_text
pub mod settling_text
