-- What bytes mean as a request.
pub mod Requests
