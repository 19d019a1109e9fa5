-- Definitions.
pub mod HollowCommands
pub mod Walls
