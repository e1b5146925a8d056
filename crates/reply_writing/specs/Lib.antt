pub mod Placed
pub mod reply_bound
pub mod reply_sizes
