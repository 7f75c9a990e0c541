-- What a line of a trace does to what is held.
pub mod Held
