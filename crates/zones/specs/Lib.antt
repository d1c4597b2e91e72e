-- Where machines lie.
pub mod Layout
