-- The examples, computed; the drives that are wrong on them.
pub mod Examples
pub mod Drives
