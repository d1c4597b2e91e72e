-- What was read and replied is the item's.
pub mod Laws
