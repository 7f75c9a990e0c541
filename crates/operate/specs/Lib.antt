-- What an operation does to a list that has been checked once.
pub mod Operated
