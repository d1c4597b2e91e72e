-- `OneByOne` has that a list is its requests one by one, `Blind` that nothing but contents depends on contents, and `Clearing` what the contents are
-- at the end.
pub mod OneByOne
pub mod Blind
pub mod Clearing
