-- What has been written of a table.
pub mod Writing
