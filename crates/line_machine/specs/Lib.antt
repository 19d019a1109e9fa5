pub mod Lines
pub mod Machine
pub mod Served
pub mod Pieces
