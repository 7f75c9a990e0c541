-- The laws of lists, a file for each definition.
pub mod Tests
pub mod All
pub mod Those
pub mod Occurrences
pub mod Counting
pub mod Numbers
pub mod Blocks
pub mod Same
pub mod Sets
pub mod Filled
pub mod AllZero
