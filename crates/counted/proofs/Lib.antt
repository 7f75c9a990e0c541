-- What the counted calls rest on, case by case, and the proofs of the promises.
pub mod Checks
pub mod Outcomes
pub mod Kept
pub mod Batched
pub mod Anew
pub mod Totals
pub mod Promises
