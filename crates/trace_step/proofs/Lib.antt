-- What a line of a trace does and prints.
pub mod Printed
