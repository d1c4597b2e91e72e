-- The words of a region.
pub mod Words
