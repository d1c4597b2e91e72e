-- That a request is served as what it is.
pub mod Laws
