-- What keeps the memories clean (`Cleaning`).
pub mod Cleaning
