pub mod Candidate
pub mod Failing
pub mod Answered
pub use Rattle.inventory_items.specs.Items
pub use Rattle.table_model.specs.Inventory
