-- That the full number is what is promised.
pub mod Promises
