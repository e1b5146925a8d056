mod Bounded
mod Covering
