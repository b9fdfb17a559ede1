pub mod Touching
pub mod FilesInMemory
pub mod Placing
pub mod Runs
pub mod Allocators
pub mod Script
pub mod Steps
pub use Rattle.vt_bytes.specs.Memory
pub use Rattle.cfg_directory.specs.Items as DirectoryItems
pub use Rattle.loader_script.specs.Run
pub use Rattle.loader_script.specs.Left
pub use Rattle.zone_alloc.specs.Zones
pub use Rattle.cfg_directory.specs.Files
pub use Rattle.loader_script.specs.LoaderName
