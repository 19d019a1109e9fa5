pub mod Promises
pub mod Ids
pub mod Saving
pub mod Kinds
pub mod Judging
pub mod Passes
pub mod Slots
pub mod RingMarks
