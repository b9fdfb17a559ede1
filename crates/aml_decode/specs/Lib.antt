pub mod Widths
pub mod Chars
pub mod Rooms
pub mod Kept
