-- Laws for the proofs of new_cell.
pub mod NewWords
