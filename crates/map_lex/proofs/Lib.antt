pub mod Cuts
pub mod Fronts
pub mod PlainWords
pub mod Quotes
pub mod Reading
pub mod WordEnds
