-- What the searches say is what is answered.
pub mod Answers
