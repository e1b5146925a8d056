mod Outcomes
mod Moving
