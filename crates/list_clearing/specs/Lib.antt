-- Which words are cleared.
pub mod Clearing
