-- How the check reads a buffer, on the words.
pub mod Tree
pub mod Pending
pub mod Loop
