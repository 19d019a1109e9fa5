-- Definitions.
pub mod Remade
pub mod Moves
pub mod Snaps
pub mod Putting
pub mod VertexCommands
