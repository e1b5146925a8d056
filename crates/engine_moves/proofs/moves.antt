mod Standing
mod Deciding
mod Cancelling
mod Offering
mod Lodging
