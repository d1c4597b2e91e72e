-- A configuration, and what makes it right.
pub mod Config
pub mod Rules
