mod Joining
mod Greatest
mod Summing
