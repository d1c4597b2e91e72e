-- From an answer to its code.
pub mod Codes
