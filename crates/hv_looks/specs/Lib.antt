-- What is answered of a machine.
pub mod Looks
