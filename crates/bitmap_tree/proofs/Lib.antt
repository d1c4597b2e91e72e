-- The laws of the tree: nodes and their bits (`Nodes`), full trees (`Fullness`), a word written (`Writes`), the way up from a frame (`Ascent`),
-- what the summaries say of the frames (`Summaries`), counting (`Counts`), and that there is a tree of every size (`Sizes`).
pub mod Nodes
pub mod Fullness
pub mod Writes
pub mod Ascent
pub mod Summaries
pub mod Counts
pub mod Sizes
