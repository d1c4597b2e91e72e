-- The laws of the words of a set: what a search finds (`Found`), when a set is in order (`Order`), that its regions determine its words
-- (`Canonical`), and that there is one of every size (`Sizes`).
pub mod Found
pub mod Order
pub mod Canonical
pub mod Sizes
