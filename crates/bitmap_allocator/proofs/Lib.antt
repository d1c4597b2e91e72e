-- The laws of the allocator: what its parts make of each other (`Answers`), and the theorems on a fresh tree and on how many frames are
-- free (`Theorems`).
pub mod Answers
pub mod Theorems
