pub mod InMemory
pub mod Moved
pub mod Streams
pub mod Texts
