pub mod Held
pub mod Laid
pub mod Lent
pub mod RamRuns
pub mod Runs
pub mod StoreFlags
pub mod Touches
pub mod Touching
