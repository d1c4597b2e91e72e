-- From what was written to what the contracts say (`Writes`), and what follows from the contracts (`Theorems`).
pub mod Writes
pub mod Theorems
