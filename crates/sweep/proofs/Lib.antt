-- The laws that the proofs of a sweep rest on.
pub mod Sweeping
pub mod Seeking
pub mod Lists
pub mod Call
