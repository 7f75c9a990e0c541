-- What the functions of the class record rest on.
pub mod Classes
pub mod Tallying
pub mod Least
