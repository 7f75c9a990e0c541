-- What a line of a trace asks for.
pub mod Lines
