-- What is replied to a call.
pub mod Calling
