-- That a machine that is removed whole is served.
pub mod Laws
