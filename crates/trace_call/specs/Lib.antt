-- The call that a line of a trace makes.
pub mod Calling
