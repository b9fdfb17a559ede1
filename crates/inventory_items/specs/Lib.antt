pub mod Items
pub mod Found
pub use Rattle.table_model.specs.Inventory
