-- What the check answers, and the parts of its account on the words (crate account) that have a function of their own.
pub mod Standing
pub mod Verdict
