-- What is left of what was attempted.
pub mod Undoing
