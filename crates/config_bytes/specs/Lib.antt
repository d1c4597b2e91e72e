-- What bytes mean. `Fields` says where each field stands and which configuration the fields are, and `Reading` what is wrong first with
-- bytes that are none.
pub mod Fields
pub mod Reading
