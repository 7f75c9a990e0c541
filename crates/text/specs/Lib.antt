-- Lines, fields and decimal numbers in bytes: The order program 2 and 3 (docs/REFERENCE.md).
pub mod Parts
pub mod Fields
pub mod Lines
pub mod Answers
pub mod Feeding
