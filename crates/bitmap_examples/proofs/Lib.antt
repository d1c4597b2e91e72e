-- The trees of the examples; and an example of every answer.
pub mod Trees
pub mod BitmapAllocator
pub mod BitmapLooks
pub mod Lending
