pub mod Steps
pub mod SameHalfSpace
pub mod Bearing
pub mod Trimmed
pub mod Once
pub mod Cause
pub mod Faces
