-- The laws of writing slots: what a change leaves (`Kept`), one step of each writer (`Steps`), and what becomes of the set (`Changes`).
pub mod Kept
pub mod Steps
pub mod Changes
