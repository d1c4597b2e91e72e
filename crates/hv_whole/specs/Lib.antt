-- All frames of a client made free.
pub mod Freeing
