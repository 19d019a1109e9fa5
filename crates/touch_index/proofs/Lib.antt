pub mod Joins
pub mod Worlds
pub mod Overlaps
