pub mod BusTerms
pub mod Told
pub use Rattle.aml_terms.specs.Trees
pub use Rattle.dsdt_terms.specs.Dsdt
