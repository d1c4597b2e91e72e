-- `Laws` has what the functions' proofs cite, and `Theorems` what is proved of ranges, regions and translation.
pub mod Laws
pub mod Theorems
