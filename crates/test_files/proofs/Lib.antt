pub mod Filled
mod Powers
