-- The memories, and what they mean.
pub mod Memory
pub mod Serving
