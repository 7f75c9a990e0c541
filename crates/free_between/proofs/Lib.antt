-- The laws that the proofs of freeing the cells between rest on.
pub mod Between
pub mod Ways
pub mod Drops
pub mod Chain
