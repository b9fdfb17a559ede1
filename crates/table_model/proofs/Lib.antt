pub mod OneSearch
pub mod SearchOfOne
pub mod OneInventory
