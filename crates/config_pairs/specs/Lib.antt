-- What the rules on two regions ask.
pub mod Pairs
