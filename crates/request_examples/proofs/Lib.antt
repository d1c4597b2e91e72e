-- An example of every answer.
pub mod RequestBytes
