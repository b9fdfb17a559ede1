-- what is tested of a memory, and each fault: the promise of the crate
pub mod Seen
pub mod Tests
pub mod EntryFaults
pub mod TableTests
pub mod IdTests
pub mod KindTests
pub mod Faults
-- what the functions tell one another
pub mod EntryHeads
pub mod Due
pub mod KnownKinds
pub mod Read
pub mod ShortFadts
pub mod Allocations
pub mod Taken
pub mod Blank
pub mod Readable
pub use Rattle.vt_bytes.specs.View
pub use Rattle.vt_layout.specs.BadEntries
pub use Rattle.acpi_model.specs.Acpi
