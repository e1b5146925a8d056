mod Listing
mod Games
mod Answering
