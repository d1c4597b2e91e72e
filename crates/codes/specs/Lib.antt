-- The results of the exported functions.
pub mod Codes
