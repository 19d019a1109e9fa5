pub mod Lists
pub mod Sides
pub mod Plain
pub mod RowLoops
pub mod FiveRows
pub mod BrushRows
pub mod Numbers
