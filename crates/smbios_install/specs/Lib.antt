pub mod Forms
pub mod Commands
pub mod Faults
pub mod Selectors
pub mod Installed
pub mod Standing
pub use Rattle.vt_bytes.specs.View
pub use Rattle.cfg_directory.specs.Items
pub use Rattle.cfg_directory.specs.SmbiosNames
pub use Rattle.loader_script.specs.Run
pub use Rattle.smbios_model.specs.Anchor
pub use Rattle.smbios_decode.specs.Faults as SmbiosFaults
