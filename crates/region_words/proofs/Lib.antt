-- The laws of a region's words.
pub mod Laws
