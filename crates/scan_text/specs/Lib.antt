pub mod List
pub mod Lines
pub use Rattle.vt_outside.specs.Stream
pub use Rattle.table_model.specs.Inventory
