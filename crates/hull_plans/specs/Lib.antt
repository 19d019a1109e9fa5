-- Definitions.
pub mod HullCommands
pub mod Hulls
pub mod Hulled
pub mod GivenFaces
pub mod Merges
