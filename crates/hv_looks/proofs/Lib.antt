-- What is known of a machine and its sets.
pub mod Laws
