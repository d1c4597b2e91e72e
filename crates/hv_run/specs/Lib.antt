-- What came of a sequence of calls.
pub mod Sequence
