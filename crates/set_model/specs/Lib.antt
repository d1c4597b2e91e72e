-- Sets of regions.
pub mod Sets
