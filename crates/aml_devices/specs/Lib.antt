pub mod MachineDsdt
pub use Rattle.acpi_append.specs.DsdtPut
pub use Rattle.dsdt_terms.specs.Dsdt
