-- What stands in the frames.
pub mod Contents
