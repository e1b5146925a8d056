pub mod Shows
pub mod ShowsLaws
