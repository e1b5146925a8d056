mod EveryPlace
mod Ceiling
