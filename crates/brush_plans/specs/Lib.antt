-- Definitions.
pub mod Bodies
pub mod PlainFaces
pub mod NamedRows
pub mod Saying
pub mod NewBrush
