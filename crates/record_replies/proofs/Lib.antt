mod Counting
mod Running
mod Asking
