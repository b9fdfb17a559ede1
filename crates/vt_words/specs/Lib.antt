pub mod Rows
pub mod Policies
pub mod Settings
pub mod Command
pub mod Written
