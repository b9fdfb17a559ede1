pub mod Legacy
pub use Rattle.vt_bytes.specs.View
pub use Rattle.vt_bytes.specs.Memory
pub use Rattle.acpi_model.specs.Form
pub use Rattle.table_model.specs.Inventory
pub use Rattle.anchor_scan.specs.Scan
pub use Rattle.anchor_scan.specs.Shown
