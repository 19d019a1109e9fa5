pub mod Carrying
pub mod Edits
pub mod Places
pub mod MoveFaults
pub mod SnapFaults
