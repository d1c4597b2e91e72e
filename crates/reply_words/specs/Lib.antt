-- The words of a reply.
pub mod Replies
