pub mod Grown
pub mod Named
pub mod WholeStreams
