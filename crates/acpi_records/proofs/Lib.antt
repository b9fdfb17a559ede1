pub mod FacsStands
pub mod EntryLists
pub mod EachMadtEntry
pub mod EachSratEntry
