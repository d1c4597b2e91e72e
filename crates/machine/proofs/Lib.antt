-- The theorems. `Frames` has the laws of frames and runs, `Keeps` that `Good` stays, `Isolation` who reaches what, `Others` that a request
-- changes nothing for another machine, `Answers` when a request succeeds and what a refusal leaves, `Contents` that frames are handed out
-- cleared, `Cases` what is answered, case by case, `Own` what a machine can learn, `Lists` that a list is all or none, and `Whole` that nothing is lost.
pub mod Frames
pub mod Keeps
pub mod Isolation
pub mod Others
pub mod Answers
pub mod Contents
pub mod Cases
pub mod Own
pub mod Lists
pub mod Whole
