-- What a reader must believe of `input`: the numbers, the header, the events; then how the code keeps a header, and
-- what is promised.
pub mod Numbers
pub mod Header
pub mod Events
pub mod Reading
pub mod Promises
pub mod Unique
