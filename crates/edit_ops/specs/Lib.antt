-- Definitions.
pub mod EditCommands
pub mod Walls
pub mod Boxes
pub mod Moving
pub mod Places
pub mod Texturing
pub mod Copying
