mod Records
mod Settling
