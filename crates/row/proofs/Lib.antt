-- That a row is read as it was written, and what the functions do to its words.
pub mod Written
pub mod Searching
pub mod Turns
pub mod Found
pub mod Checking
pub mod Changed
pub mod Outcomes
pub mod Staying
pub mod Promises
pub mod Laws
