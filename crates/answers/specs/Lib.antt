-- What every call answers: four numbers, and the table of refusals.
pub mod Refusals
