-- The answers to a machine as numbers.
pub mod Codes
