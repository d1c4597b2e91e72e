-- What the functions that change a tree answer.
pub mod Changes
