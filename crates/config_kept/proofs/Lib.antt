-- The laws of words in view.
pub mod Laws
