-- The laws that the proofs of a cell's tests rest on, and those that is_list cites.
pub mod Tests
pub mod OneCell
