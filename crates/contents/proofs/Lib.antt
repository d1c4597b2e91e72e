-- The laws of words wiped (`Words`), and of what keeps the memories clean (`Cleaning`); and that clean memories are there at every size
-- (`Sizes`).
pub mod Words
pub mod Cleaning
pub mod Sizes
