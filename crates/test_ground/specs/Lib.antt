pub mod Worked
pub mod Parcel
pub use Rattle.vt_layout.specs.Entries
pub use Rattle.vt_layout.specs.BadEntries
pub use Rattle.vt_layout.specs.Filled
pub use Rattle.vt_layout.specs.Values
pub use Rattle.vt_layout.specs.Fields
