-- That each answer of a set serves the request.
pub mod Laws
