-- The promises, the cases of the crate's functions, and the laws behind both.
mod Numbers
mod Reading
mod Moving
mod Groups
mod Heading
pub mod Promises
pub mod Unique
