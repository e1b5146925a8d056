pub mod SettledLines
