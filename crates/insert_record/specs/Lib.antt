-- What a note does, once it is read.
pub mod Noted
