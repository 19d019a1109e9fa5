pub mod Faults
pub mod Cuts
pub mod Hollows
pub mod Laws
