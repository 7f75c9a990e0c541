-- What the functions of a batch rest on.
pub mod Calls
pub mod Batching
pub mod Whole
