-- The laws of runs: rounding, and the window that is looked at from its end (`Windows`), and the starts in a word (`Starts`).
pub mod Windows
pub mod Starts
