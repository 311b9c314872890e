-- The plan of an answer, over the rules and orders of `rules`; that each contract determines its answer, and that
-- kinds have QUEUE CNTL's numbers.
pub mod Plans
pub mod Unique
pub mod Promises
