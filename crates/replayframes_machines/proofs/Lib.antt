-- What is said of a request that names a kind or a set by a number.
pub mod Laws
