pub mod Limits
pub mod Machine
pub mod Planes
pub mod Rounding
pub mod Sides
pub mod Vertices
