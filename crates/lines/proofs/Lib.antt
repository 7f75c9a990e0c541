-- What holds of the fields of a line.
pub mod Grammar
