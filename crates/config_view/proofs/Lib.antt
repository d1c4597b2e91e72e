-- The laws of views, of going through a configuration machine by machine, and that every configuration has a table.
pub mod Laws
pub mod Rows
pub mod Tables
