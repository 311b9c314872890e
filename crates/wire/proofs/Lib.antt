-- Laws of the crate, of which those of `Table` serve other crates too, and the promises.
pub mod Table
pub mod Promises
pub mod Past
pub mod Unique
mod Rows
mod Masks
mod Blocks
pub mod Results
