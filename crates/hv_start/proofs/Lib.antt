-- `Sizes` has when the lent memories are a configuration's, `Empty` what words that are all 0 mean, and `Starts` that the start is made.
pub mod Sizes
pub mod Empty
pub mod Starts
