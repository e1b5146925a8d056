pub mod Shapes
pub mod Fitting
pub mod RowLaws
pub mod ShapeLaws
