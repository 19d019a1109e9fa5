pub mod Sides
pub mod Cutting
pub mod Blocks
pub mod Moved
