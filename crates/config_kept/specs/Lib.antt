-- What is asked of the words.
pub mod Kept
