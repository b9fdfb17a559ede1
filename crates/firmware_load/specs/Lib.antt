pub mod Schedules
pub mod Drawing
pub mod World
pub mod Inside
pub use Rattle.zone_alloc.specs.Policies
pub use Rattle.load_states.specs.Runs
pub use Rattle.load_states.specs.Kept
pub use Rattle.load_states.specs.Loads
