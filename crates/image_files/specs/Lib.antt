pub use Rattle.zone_alloc.specs.Zones
pub mod Files
pub mod Script
pub mod Items
pub mod Linkable
pub mod Orders
pub mod Places
pub mod Linked
pub mod Room
pub use Rattle.vt_outside.specs.Placement
pub use Rattle.loader_script.specs.Run
pub use Rattle.loader_script.specs.Left
pub use Rattle.loader_script.specs.Spelling
pub use Rattle.blob_holes.specs.Blob
pub use Rattle.blob_holes.specs.Filled
pub use Rattle.blob_holes.specs.Grown
pub use Rattle.cfg_directory.specs.Items as DirectoryItems
