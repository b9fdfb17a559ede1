pub mod Rules
pub mod Fields
pub mod Memory
pub mod Numbers
pub mod Uuids
pub use Rattle.vt_outside.specs.Name
