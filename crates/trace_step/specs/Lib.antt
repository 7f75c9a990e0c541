-- What is held before and after a line of a trace, and what is printed for it.
pub mod Room
pub mod Printed
