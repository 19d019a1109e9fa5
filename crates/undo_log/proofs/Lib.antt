pub mod Tights
pub mod Lists
pub mod Steps
