-- The allocator's reasons as answers.
pub mod Answers
