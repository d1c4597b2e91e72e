-- `Laws` has what the functions' proofs cite, and `Theorems` that bytes are one sequence at most.
pub mod Laws
pub mod Theorems
