pub mod Shown
pub mod Found
pub mod First
pub mod Within
pub mod Scan
pub mod Gathered
pub use Rattle.vt_bytes.specs.View
pub use Rattle.vt_bytes.specs.Memory
pub use Rattle.acpi_model.specs.Rsdp
pub use Rattle.smbios_model.specs.Anchor
pub use Rattle.smbios_model.specs.Smbios
pub use Rattle.smbios_decode.specs.Faults
pub use Rattle.acpi_decode.specs.Faults as AcpiFaults
pub use Rattle.table_model.specs.Search
pub use Rattle.table_model.specs.Inventory
