-- What a reader must believe of `wire`: the numbers of page 01 and 003, the fields of a message, the messages, the
-- command block, what is promised of them, and that each public function's answer is determined.
pub mod Codes
pub mod Fields
pub mod Messages
pub mod Block
pub mod Promises
pub mod Unique
