mod Figuring
mod Settling
