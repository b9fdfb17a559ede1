pub mod Numbers
pub mod Forms
pub mod Given
pub mod Taken
pub mod Fits
pub mod Written
pub mod Spelled
pub mod Steps
