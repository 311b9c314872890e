-- The definition of demand 2, over the rules of `rules` and the plans of `plan`: what each call answers, does to the
-- table, says that it ended and leaves in the reply buffer.
pub mod Calls
pub mod Steps
pub mod Unique
pub mod Promises
pub mod Holding
