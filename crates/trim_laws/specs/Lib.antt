pub mod Solid
pub mod SameHalfSpace
pub mod Trim
pub mod Valid
pub mod Laws
