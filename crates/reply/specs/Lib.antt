-- What a reader must believe of `reply`: the bytes of each reply, what the writer does with a buffer, what the reader
-- finds in bytes, how the two fit, and that the answers are determined.
pub mod Replies
pub mod Calls
pub mod Promises
pub mod Unique
