-- A line of a trace of calls on a plain row: its call, what is held after it and what is printed.
pub mod Lines
