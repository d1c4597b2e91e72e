-- The laws of reading.
pub mod Laws
