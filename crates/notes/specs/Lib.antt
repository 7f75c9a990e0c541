-- What a record of the logger's export notes, the records of an export, how both are read byte by byte, and what is promised of them.
pub mod Notes
pub mod Export
pub mod Reader
pub mod Feeding
pub mod Promises
