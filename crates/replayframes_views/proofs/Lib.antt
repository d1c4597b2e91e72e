-- The laws of answers about a set.
pub mod Laws
