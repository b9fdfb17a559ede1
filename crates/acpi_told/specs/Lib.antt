pub mod Nodes
pub mod Parts
pub use Rattle.acpi_model.specs.MachineSrat
pub use Rattle.acpi_model.specs.MachineMadt
pub use Rattle.acpi_model.specs.MachineFadt
pub use Rattle.acpi_model.specs.MachineMcfg
pub use Rattle.dsdt_terms.specs.Dsdt
