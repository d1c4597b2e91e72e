-- Who asks.
pub mod Asking
