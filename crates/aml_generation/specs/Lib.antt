pub mod Generation
pub mod Candidates
pub use Rattle.aml_terms.specs.Trees
