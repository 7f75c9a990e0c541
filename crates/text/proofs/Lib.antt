-- What holds of fields and numbers, what the feed hands on, and what its functions do case by case.
pub mod Parts
pub mod Numerals
pub mod Feeding
pub mod Steps
