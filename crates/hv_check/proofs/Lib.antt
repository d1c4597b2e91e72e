-- `Parts` has what is sound where every part is right, and `Laws` what the proofs of the functions cite.
pub mod Parts
pub mod Laws
