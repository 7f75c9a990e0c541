-- Where a list stands while it is given a file's pairs.
pub mod Putting
