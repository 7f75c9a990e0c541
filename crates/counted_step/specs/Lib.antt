-- A line of a trace of counted calls: what it asks for, its call, what is held after it and what is printed.
pub mod Lines
pub mod Printed
