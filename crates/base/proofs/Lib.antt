-- The laws about the words of specs/.
pub mod Says
pub mod Search
pub mod Counts
pub mod Ranges
pub mod Choices
pub mod Positions
