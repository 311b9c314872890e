-- A command's rules and the management orders, as page 01 has them; whose tasks each order ends; that each contract
-- determines its answer; the field behind rule 3.
pub mod Facts
pub mod First
pub mod Rules
pub mod Management
pub mod Examples
pub mod Unique
pub mod Promises
