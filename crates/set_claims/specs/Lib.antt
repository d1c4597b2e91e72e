-- What may be asked of a set.
pub mod Claims
