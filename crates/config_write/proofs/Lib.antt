-- The laws of writing.
pub mod Laws
