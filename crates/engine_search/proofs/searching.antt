mod Rows
mod Tallying
mod Exploring
mod Orders
mod Passing
mod Finding
