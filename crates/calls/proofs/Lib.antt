-- The laws of calls and of sequences of calls.
pub mod Ends
pub mod Restarted
pub mod Booked
pub mod Listed
pub mod Batch
pub mod Runs
pub mod Computing
pub mod Examples
pub mod Fourteen
pub mod Promises
