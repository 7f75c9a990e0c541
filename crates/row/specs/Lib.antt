-- The plain row: its words and its operations.
pub mod Row
pub mod Places
pub mod Promises
