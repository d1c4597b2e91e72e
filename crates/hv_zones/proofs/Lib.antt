-- That a machine that comes or goes is served.
pub mod Laws
