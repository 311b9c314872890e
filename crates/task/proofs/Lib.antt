-- The laws that the crates above cite.
pub mod Ways
pub mod Places
pub mod Bits
pub mod Maps
pub mod Lists
pub mod Loops
pub mod Clearing
pub mod Gathering
pub mod Selecting
pub mod Scanning
pub mod Next
pub mod Promises
pub mod Unique
