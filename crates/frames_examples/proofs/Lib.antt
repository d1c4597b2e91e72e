-- The words of the examples; and an example of every answer.
pub mod Words
pub mod Frames
pub mod FramesPool
