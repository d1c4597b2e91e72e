-- The laws of counting a client's frames (`Counting`), of their release (`Releasing`), and of the start (`Beginning`).
pub mod Counting
pub mod Releasing
pub mod Beginning
