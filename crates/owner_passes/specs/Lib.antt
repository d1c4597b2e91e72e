-- What the passes over all frames answer and change.
pub mod Passes
