pub mod EqualItems
pub mod EqualRecords
