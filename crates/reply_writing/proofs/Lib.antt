mod Laws
mod Placing
