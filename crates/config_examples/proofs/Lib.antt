-- The configurations of the examples, in bytes and in tables; and an example of every answer.
pub mod Pairs
pub mod Strings
pub mod Truck
pub mod Alike
pub mod Wrong
pub mod Config
pub mod ConfigTable
