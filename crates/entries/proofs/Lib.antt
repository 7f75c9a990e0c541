-- What holds of entries and of their keys.
pub mod Ranges
pub mod Promises
