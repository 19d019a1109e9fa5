pub mod Places
pub mod Listing
pub mod Facets
pub mod Distinct
