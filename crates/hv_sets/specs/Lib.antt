-- The set that a request is about.
pub mod Asked
