-- What is told of is entered, and what is printed for it.
pub mod Printed
