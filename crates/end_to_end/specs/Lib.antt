-- What memories have lived through.
pub mod Living
