pub mod Multiples
mod Alike
mod Chosen
mod Drawn
mod Kept
mod OnePlace
mod Order
mod Reached
mod Walk
