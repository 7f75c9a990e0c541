-- The meaning of a list and of its six operations: docs/REFERENCE.md, rule by rule, in its words and its order.
-- What to believe: docs/MAP.md has the order of reading.
pub mod Keys
pub mod Row
pub mod State
pub mod Picture
pub mod Reading
pub mod Operations
pub mod Words
pub mod Rule
pub mod Walk
pub mod Resting
pub mod Lower
-- What cross-checks it: the conditions on the words one by one, what a call writes, and what is promised.
pub mod Sentences
pub mod Writes
pub mod Promises
-- What stands below, for the code.
pub mod Layer
