-- That a request about a set is served.
pub mod Laws
