-- What it is to serve a list.
pub mod Listing
