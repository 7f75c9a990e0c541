-- One record of the program logger, one take, and what is printed for each.
pub mod Printed
