-- When a list is served.
pub mod Laws
