pub mod Block
pub mod FrameLends
pub mod Ownership
pub mod Places
pub mod WindowLends
pub mod Windows
