-- `Writing` has that a machine's write keeps the memories sound, and `Theorems` what holds after every sequence.
pub mod Writing
pub mod Theorems
