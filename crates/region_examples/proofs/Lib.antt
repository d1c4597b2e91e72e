-- The regions and the sets of the examples; and an example of every answer.
pub mod Regions
pub mod Address
pub mod Sets
pub mod MemorySet
pub mod MemorySetChanges
