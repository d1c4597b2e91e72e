-- The answers as numbers.
pub mod Codes
