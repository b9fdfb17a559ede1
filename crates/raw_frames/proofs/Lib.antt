pub mod ArrayParts
pub mod Bytes
pub mod FrameLemmas
pub mod Rows
pub mod Sharing
pub mod Spliced
pub mod Steps
pub mod Values
