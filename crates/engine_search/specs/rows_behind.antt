pub mod Behind
pub mod InOrder
pub mod ByNumber
