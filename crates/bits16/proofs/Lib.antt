-- The laws about the words of specs/, and what the functions of src/ compute with.
pub mod Laws
pub mod Masks
pub mod Lengths
pub mod Doubling
