-- What a reader must believe of `transcript`: the lines, and the whole text that an input is played to; then how the
-- code comes to it, page 01's worked input, and what is promised.
pub mod Lines
pub mod Text
pub mod Playing
pub mod Examples
pub mod Promises
pub mod Unique
