mod AllKept
mod Counting
mod Gathering
pub mod Held
mod Inside
mod Placing
mod Reading
mod Shaping
mod Siding
mod World
