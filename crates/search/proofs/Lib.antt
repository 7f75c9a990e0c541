-- The laws that the search's proofs rest on, and those that its callers cite.
pub mod Searching
pub mod Sides
pub mod Resting
pub mod Slots
pub mod Lowering
