pub mod Members
pub mod Space
pub mod World
pub mod Fractions
pub mod Ratio
pub mod Laws
