pub use Rattle.machine_desc.specs.Rules
pub use Rattle.acpi_model.specs.MachineMadt
pub use Rattle.acpi_model.specs.MachineSrat
pub use Rattle.acpi_model.specs.MachineSlit
pub use Rattle.blob_holes.specs.Blob
pub use Rattle.acpi_append.specs.Tables
