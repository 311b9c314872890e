-- The promises and the worked input, and the laws behind both.
mod Lines
mod Uncut
mod Printing
mod Whole
pub mod Examples
pub mod Promises
pub mod Unique
