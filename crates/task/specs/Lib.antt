-- What a reader must believe of `task`: the record, the map of live records, which tasks a selection picks, which
-- task goes next.
pub mod Index
pub mod Tasks
pub mod Map
pub mod Selections
pub mod Scan
pub mod Next
pub mod Promises
pub mod Unique
