pub mod Accepted
pub mod Lists
pub mod Pushed
pub mod Taken
