-- Laws of the crate, and the promises.
mod Cases
pub mod Promises
pub mod Past
pub mod Unique
