-- Frames that are all 0 (`Blank`), and that each answer of the allocator serves the request (`Laws`).
pub mod Blank
pub mod Laws
