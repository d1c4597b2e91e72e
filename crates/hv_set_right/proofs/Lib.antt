-- When a set is right.
pub mod Laws
