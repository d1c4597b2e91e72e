-- Calls in bytes: `Calls` says what one call is, and `Framing` what a sequence of them is.
pub mod Calls
pub mod Framing
