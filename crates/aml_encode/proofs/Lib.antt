pub mod Lists
pub mod Paths
pub mod Measuring
pub mod Smaller
pub mod Writing
pub mod Good
pub mod EachWritten
