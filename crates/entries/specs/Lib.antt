-- Entries and their keys: Entries (docs/REFERENCE.md).
pub mod Entries
pub mod Promises
