pub mod Zones
pub mod Places
pub mod Policies
pub mod Words
pub mod Ranges
pub mod Allocators
pub use Rattle.vt_outside.specs.Placement
pub use Rattle.vt_outside.specs.Stream
