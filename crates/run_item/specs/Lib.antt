-- What it is to serve a call of a sequence.
pub mod Serving
