-- What a reader must believe of `sound`: when a table is sound, and what keeps it so. The map of what was seen is the
-- check's own: with it or without it the check answers exactly `Sound`.
pub mod Sound
pub mod Seen
pub mod Promises
pub mod Unique
