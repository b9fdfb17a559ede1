pub mod formers
pub mod Stream
pub mod Name
pub mod MemoryStream
pub mod StdStream
pub mod Placement
pub mod File
pub mod Readings
