-- The theorems about the calls; how a call's outcome comes about; the cases of the functions.
pub mod Unique
pub mod Promises
pub mod Replies
pub mod Keeps
pub mod Confirming
pub mod Holding
pub mod Abort
pub mod Past
pub mod Outcomes
pub mod Endings
pub mod Computing
mod Calling
