-- Worked calls: page 01's examples, and drives that are wrong on them.
pub mod Examples
pub mod Drives
