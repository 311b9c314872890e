-- That answers are one, that kinds have QUEUE CNTL's numbers, and the law of an order's answer; the cases of this
-- crate's own functions.
pub mod Unique
pub mod Promises
