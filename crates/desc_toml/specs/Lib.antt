pub mod Keys
pub mod Values
pub mod Printed
pub mod Reading
pub mod Tables
pub mod Lines
