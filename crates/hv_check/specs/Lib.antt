-- What is answered of the memories.
pub mod Checking
