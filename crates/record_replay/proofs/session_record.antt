mod Keeping
mod Copying
mod Adding
