pub mod PartsBack
pub mod ToldSoFar
