-- `Laws` has the laws of written bytes, and `Meaning` that they mean the configuration that was written.
pub mod Laws
pub mod Meaning
