-- How a sequence goes on.
pub mod Laws
