pub mod Pieces
pub mod Names
pub mod Taken
pub mod Results
pub mod Texts
pub mod NumberBytes
pub mod Each
pub mod Readings
