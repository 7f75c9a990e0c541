-- The lines of the order program: The order program (docs/REFERENCE.md).
pub mod Grammar
pub mod Answers
