mod Choosing
mod Selecting
