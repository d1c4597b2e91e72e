-- The words of a set.
pub mod Slots
