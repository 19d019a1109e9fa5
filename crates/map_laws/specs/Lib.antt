pub mod Placed
pub mod Walking
pub mod Editing
pub mod Unlinked
pub mod TreeCommands
pub mod MovingCommands
pub mod BoxCommand
pub mod Reshaping
