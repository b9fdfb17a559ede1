mod Drawn
mod OfSeed
mod Given
mod Resets
mod SoMany
pub mod RoomOfLoads
pub mod CommandsDone
pub mod Allocating
pub mod Listings
pub mod AtStages
pub mod LoadStates
pub mod Touching
pub mod Refilled
pub mod Opening
pub mod AtCommands
pub mod CanMove
pub mod StepInside
pub mod OnRun
pub mod Turns
pub mod Loaded
