-- What the public contracts say. `Checking` has the verdict on bytes, `Loading` the writing of a table, `Tables` the verdict on words, and
-- `Encoding` the writing of bytes.
pub mod Checking
pub mod Loading
pub mod Tables
pub mod Encoding
