-- `Laws` has what the functions' proofs cite.
pub mod Laws
