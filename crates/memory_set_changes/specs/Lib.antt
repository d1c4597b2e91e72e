-- How a set changes.
pub mod Changes
