-- Counting the live keys, and writing their pairs on the way through the standing cells.
pub mod Counting
pub mod Writing
pub mod Whole
