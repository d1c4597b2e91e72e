-- What happens to the memories.
pub mod Happening
