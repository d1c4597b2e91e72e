-- How a list is carried out.
pub mod Carrying
