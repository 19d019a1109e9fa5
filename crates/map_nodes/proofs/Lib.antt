pub mod Copies
pub mod Distinct
pub mod SameParts
pub mod Fractions
pub mod FaceSides
