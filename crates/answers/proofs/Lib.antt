-- The laws of the table of refusals.
pub mod Refusals
