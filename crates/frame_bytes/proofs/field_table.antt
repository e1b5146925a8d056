mod Tables
mod Shaping
