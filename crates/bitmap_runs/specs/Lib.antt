-- What the contracts of this crate cite, and of those above it.
pub mod Runs
pub mod Short
