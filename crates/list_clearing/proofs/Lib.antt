-- When words are cleared.
pub mod Laws
