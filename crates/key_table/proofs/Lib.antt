pub mod Order
pub mod Padded
pub mod Search
pub mod Twins
