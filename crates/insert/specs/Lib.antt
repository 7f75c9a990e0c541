-- What the parts of insert are asked and leave.
pub mod Inserting
