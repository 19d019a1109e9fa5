pub mod Kept
pub mod Laws
pub mod MotionTexts
pub mod Motions
pub mod Orients
pub mod Reading
pub mod Rows
