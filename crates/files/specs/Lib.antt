-- The bytes of a file, and what is read out of bytes: Files (docs/REFERENCE.md).
pub mod Files
pub mod Promises
