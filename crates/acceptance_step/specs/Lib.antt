-- A line of the acceptance trace: its call on both engines, what is held after it and what is printed.
pub mod Lines
pub mod Printed
