-- `Conditions` has where the original's own conditions hold, `Changes` what follows of changes at one number or at a run, `Bitmap` of the
-- view of a tree and of runs, `Nested` of the view as that of nested trees, `Frames` of the sets of free and owned frames, `Addresses` of
-- addresses and regions, `Sets` of sets of regions, `Overlaps` of regions that overlap, and `Machines` of machines; `Refused` has which
-- answers that the original's contracts accept are refused here.
pub mod Conditions
pub mod Changes
pub mod Bitmap
pub mod Nested
pub mod Frames
pub mod Addresses
pub mod Sets
pub mod Overlaps
pub mod Machines
pub mod Refused
