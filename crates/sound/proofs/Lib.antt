-- The laws that the crates above cite; the cases of this crate's own functions.
pub mod Exact
pub mod Seeing
pub mod Keeps
pub mod Acas
pub mod Unique
mod Checking
mod SeenCases
