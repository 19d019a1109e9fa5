pub mod Strict
pub mod Reach
