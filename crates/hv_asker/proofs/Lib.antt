-- The laws of who asks.
pub mod Laws
