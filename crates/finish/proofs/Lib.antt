-- The laws that finish's proofs rest on, and those that insert and sweep cite.
pub mod Finishing
pub mod Debts
pub mod Call
