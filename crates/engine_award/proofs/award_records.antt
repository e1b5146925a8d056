mod Counting
mod Writing
