-- What the functions that only look answer.
pub mod Looks
