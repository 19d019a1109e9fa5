pub mod LowestTerms
pub mod Before
pub mod Crossing
pub mod Least
pub mod Reaching
pub mod FirstFace
