-- What has been written of the bytes of a configuration.
pub mod Encoding
