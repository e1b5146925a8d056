mod Reading
mod Holding
