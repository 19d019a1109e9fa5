-- Definitions.
pub mod CutCommands
pub mod Told
pub mod Results
pub mod Clips
pub mod Ending
pub mod Subtracts
pub mod Intersects
