-- What stands where: each word of a cell, and the links read through what is owed.
pub mod Placed
pub mod WalkRead
pub mod Stores
pub mod Changed
pub mod CellsWithin
pub mod Folded
