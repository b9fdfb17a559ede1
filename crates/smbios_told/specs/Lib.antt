pub mod Parts
pub use Rattle.smbios_model.specs.ToldParts
