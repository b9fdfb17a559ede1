pub mod OneRecord
pub mod OneItem
pub mod AllItems
