pub mod Curve
pub mod CurveLaws
pub mod Closings
pub mod CurveSample
