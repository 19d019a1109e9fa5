pub mod Lines
pub mod Brushes
pub mod Built
pub mod Sitting
pub mod Words
pub mod Picks
