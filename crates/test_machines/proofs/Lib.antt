pub mod Ended
pub mod TwoAllocations
