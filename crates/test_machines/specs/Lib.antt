pub mod Unended
pub use Rattle.smbios_build.specs.Buildable
