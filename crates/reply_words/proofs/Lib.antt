-- What three words say.
pub mod Laws
