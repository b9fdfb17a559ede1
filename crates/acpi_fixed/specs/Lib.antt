pub use Rattle.machine_desc.specs.Rules
pub use Rattle.acpi_model.specs.Header
pub use Rattle.acpi_records.specs.Hpet
pub use Rattle.acpi_model.specs.MachineFadt
pub use Rattle.acpi_model.specs.MachineMcfg
pub use Rattle.blob_holes.specs.Blob
pub use Rattle.acpi_append.specs.Tables
pub use Rattle.acpi_append.specs.FacsPut
