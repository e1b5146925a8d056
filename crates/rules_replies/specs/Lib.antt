pub mod Orders
pub mod WrittenOrders
pub mod Replies
pub mod WrittenOrderLaws
pub mod Lengths
pub mod SampleRecord
pub mod FieldPlaces
pub mod record_calls
