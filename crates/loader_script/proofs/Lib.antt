pub mod ReadAgain
pub mod Scripts
pub mod Found
pub mod Orders
pub mod Named
pub mod Conditions
pub mod Runs
