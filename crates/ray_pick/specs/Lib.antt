pub mod Rays
pub mod Passings
pub mod Hits
