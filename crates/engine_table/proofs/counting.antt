mod Checking
mod Tallying
