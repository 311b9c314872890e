-- What a reader must believe of `table`: what a table holds, how it changes, the table that setup gives, and what is
-- promised of all that. When a table is sound stands in `sound`.
pub mod Tables
pub mod Steps
pub mod Setup
pub mod View
pub mod Promises
pub mod Unique
