-- The parts of the account on the words (crate account) that have a function of their own.
pub mod Tests
