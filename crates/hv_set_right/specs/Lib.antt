-- When a machine's set is right.
pub mod Right
