-- Why there is no lister.
pub mod Laws
