mod Reading
mod Counting
