-- An operation takes a list to a list with the same settings.
pub mod Operating
