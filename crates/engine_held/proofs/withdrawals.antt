mod Reading
mod Reaching
