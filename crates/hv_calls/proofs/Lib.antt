-- When a call is served.
pub mod Laws
