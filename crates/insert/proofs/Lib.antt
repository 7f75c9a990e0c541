-- Laws for the proofs of insert.
pub mod Inserting
pub mod Position
pub mod Call
