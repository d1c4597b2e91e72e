-- What is answered of a set.
pub mod Looks
