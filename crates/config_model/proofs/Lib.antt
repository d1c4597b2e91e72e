-- The laws of configurations, and a right one of every size (`Sizes`).
pub mod Laws
pub mod Sizes
