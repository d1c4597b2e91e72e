-- What the public contracts say. `Addresses` has where a frame stands, and `Changes` what is given and given back.
pub mod Addresses
pub mod Changes
