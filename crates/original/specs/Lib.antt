-- The original's terms.
pub mod Terms
