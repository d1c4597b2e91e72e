-- The codes of the shared allocator's reasons.
pub mod Reasons
