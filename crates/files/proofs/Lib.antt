-- That reading undoes writing, for a number and for a file; what the functions on bytes do; the promises.
pub mod Numbers
pub mod Parts
pub mod Tags
pub mod Table
pub mod Written
pub mod Pairs
pub mod Files
pub mod Reading
pub mod Promises
