-- What the contract of the exported function cites.
pub mod Calls
