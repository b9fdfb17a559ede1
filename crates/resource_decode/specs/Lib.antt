pub mod Items
pub use Rattle.resource_items.specs.Templates
