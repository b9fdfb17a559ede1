pub mod BlockRows
pub mod MachinePut
