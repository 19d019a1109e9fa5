pub mod Held
pub mod Walk
pub mod Drawn
