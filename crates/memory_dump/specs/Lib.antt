pub mod Dump
pub mod Rows
pub mod Reading
pub use Rattle.vt_outside.specs.Stream
pub use Rattle.vt_bytes.specs.Memory
pub use Rattle.guest_memory.specs.Bytes
