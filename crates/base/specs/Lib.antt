-- The words in which the contracts of every crate speak.
pub mod Says
pub mod Search
pub mod Ranges
pub mod Choices
