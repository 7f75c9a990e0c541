-- The two engines side by side: the list, and the plain row.
pub mod Alike
pub mod Promises
