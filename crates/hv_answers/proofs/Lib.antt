-- That a request for frames is served: `Refusals` has those that are refused, and `Frames` those that are not.
pub mod Refusals
pub mod Frames
