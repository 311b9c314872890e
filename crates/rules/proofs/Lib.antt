-- The laws of the rule list that the crates above cite; whose tasks each order ends, that answers are one, and the
-- field behind rule 3; the cases of this crate's own functions.
pub mod Entries
pub mod Examples
pub mod Unique
pub mod Promises
