-- How far a list has gone.
pub mod Attempting
