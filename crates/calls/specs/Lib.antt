-- Calls and sequences of calls: what is lent to a call beside the words of a list, what it does and answers, and what is promised of sequences.
-- What to believe: docs/MAP.md has the order of reading.
pub mod Records
pub mod Pairs
pub mod Saved
pub mod Calls
pub mod Batch
-- What cross-checks it: what each call does, in one place, what an ordered map would do, what a run of takes costs, the fourteen steps, and what is promised.
pub mod Effects
pub mod Book
pub mod Runs
pub mod Fourteen
pub mod Promises
-- What stands below, for the code.
pub mod Layer
