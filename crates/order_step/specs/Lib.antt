-- One line of the order program, and what is promised of its lines.
pub mod Step
pub mod Promises
