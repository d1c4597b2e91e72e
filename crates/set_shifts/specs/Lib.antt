-- What the writers of slots do.
pub mod Shifts
