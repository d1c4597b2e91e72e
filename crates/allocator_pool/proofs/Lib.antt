-- From what was written to what the contracts say (`Writes`).
pub mod Writes
