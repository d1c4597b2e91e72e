-- `Stages` has the check as numbered stages, `Verdicts` what follows from the contract of `check`, and `Round` the ways there and back.
pub mod Stages
pub mod Verdicts
pub mod Round
pub mod Strings
