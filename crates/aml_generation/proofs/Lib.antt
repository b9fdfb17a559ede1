pub mod Views
pub mod Halves
pub mod Kept
pub mod Walks
pub mod Scopes
pub mod Told
pub mod Zeros
