-- What the contracts of this crate cite, and of those above it.
pub mod Heights
pub mod Found
