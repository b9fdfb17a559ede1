pub mod ReadItems
pub mod OneItem
pub mod OneTemplate
