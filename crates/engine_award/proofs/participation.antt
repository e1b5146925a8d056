mod Summing
mod Granting
mod Tests
