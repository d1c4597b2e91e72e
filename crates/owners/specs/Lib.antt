-- What a frame is (`States`), and how that changes (`Writes`).
pub mod States
pub mod Writes
