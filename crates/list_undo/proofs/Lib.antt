-- One list as a copy of another.
mod Copies
