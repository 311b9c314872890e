-- The laws that the crates above cite; the cases of this crate's own functions.
pub mod Views
pub mod Weights
pub mod Setting
pub mod Lists
pub mod Unique
pub mod Stepping
pub mod Listed
mod Changing
