-- What the functions of order_step rest on: the outcome of a line, readable or not, and the bytes that are printed for it.
pub mod LineOutcome
pub mod LineText
pub mod Promises
