mod Preferring
mod Candidates
mod Winning
