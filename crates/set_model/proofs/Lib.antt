-- The laws of sets of regions: `Tests` has what the tests of a region say, `Lists` the laws of lists and their order, `Room` that a set of
-- given regions is not larger than what is given, and `Pages` how the pages that a set maps change.
pub mod Tests
pub mod Lists
pub mod Room
pub mod Pages
