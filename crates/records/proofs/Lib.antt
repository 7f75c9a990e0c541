-- That the reading of a record is its grammar.
pub mod Accepts
pub mod Derives
pub mod Promises
