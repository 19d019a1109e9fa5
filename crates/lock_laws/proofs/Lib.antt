pub mod Carrying
pub mod Keeping
pub mod Numbers
pub mod Staying
pub mod Steps
