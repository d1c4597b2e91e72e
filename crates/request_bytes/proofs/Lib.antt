-- `Laws` has what the functions' proofs cite, and `Theorems` that bytes have one meaning at most.
pub mod Laws
pub mod Theorems
