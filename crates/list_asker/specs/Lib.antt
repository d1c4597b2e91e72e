-- Whose list it is.
pub mod Listing
