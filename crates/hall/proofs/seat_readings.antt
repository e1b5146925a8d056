mod Standing
mod Readings
