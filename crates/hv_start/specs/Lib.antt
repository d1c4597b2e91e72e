-- What the start needs, and what it makes.
pub mod Starting
