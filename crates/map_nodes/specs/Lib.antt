pub mod Seen
pub mod Pairs
pub mod Lists
pub mod Nodes
pub mod Fractions
