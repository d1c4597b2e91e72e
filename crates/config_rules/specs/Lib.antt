-- What is answered of a configuration.
pub mod Judging
