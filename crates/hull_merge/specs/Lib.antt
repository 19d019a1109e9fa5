pub mod Hulls
pub mod Gathered
