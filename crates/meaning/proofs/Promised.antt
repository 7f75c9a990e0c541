-- What is promised of one call on a list, family by family; slips that are shut out.
pub mod AgainstSlips
pub mod Present
pub mod Serves
pub mod Writes
pub mod OwedCells
pub mod FallsBack
