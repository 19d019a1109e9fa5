-- Definitions.
pub mod TreeCommands
pub mod Material
pub mod Passing
pub mod Faults
pub mod Planning
