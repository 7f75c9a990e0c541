-- The two engines keep one book, and so they answer alike.
pub mod Promises
