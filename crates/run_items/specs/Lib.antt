-- What a sequence of calls does.
pub mod Running
