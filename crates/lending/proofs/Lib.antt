-- The laws of the search for a tree.
pub mod Laws
