-- The full number of a record, and what is promised of it.
pub mod FullNumber
pub mod Promises
