-- That reading byte by byte finds what a record notes, and what the records of an export note.
pub mod Notes
pub mod Feeding
