-- How a list goes on.
pub mod Laws
