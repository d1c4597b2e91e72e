-- Which answers a request can get (`Only`), the memories and sets of the examples, and an example of every answer.
pub mod Only
pub mod Memories
pub mod Sets
pub mod HvZones
pub mod HvRegions
pub mod HvFrames
pub mod HvWhole
pub mod HvRequest
pub mod HvLooks
