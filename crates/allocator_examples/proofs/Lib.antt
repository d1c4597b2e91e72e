-- The memories of the examples; and an example of every answer.
pub mod Memories
pub mod GlobalAllocator
pub mod AllocatorPool
