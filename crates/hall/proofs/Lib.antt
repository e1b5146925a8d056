mod Calls
mod Closing
