-- How many calls were served.
pub mod Laws
