mod Writing
mod Putting
