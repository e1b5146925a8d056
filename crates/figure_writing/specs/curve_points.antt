pub mod Points
pub mod PointLaws
