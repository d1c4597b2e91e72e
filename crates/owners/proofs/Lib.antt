-- The laws of states (`States`), and of writing and searching them (`Writes`); and that every state is met at every size (`Sizes`).
pub mod States
pub mod Writes
pub mod Sizes
