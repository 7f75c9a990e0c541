-- What the program keeps to, so that it is safe.
pub mod Kept
