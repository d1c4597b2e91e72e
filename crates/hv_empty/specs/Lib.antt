-- Whether a machine is empty.
pub mod Empty
