-- What follows from the contracts.
pub mod Theorems
