-- What the public contracts say. `Looks` has the functions that only look, and `Changes` those that change the memories.
pub mod Looks
pub mod Changes
