pub mod Text
pub mod Adding
pub mod Counted
