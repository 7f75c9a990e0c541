-- The sizes of both engines, and a line that is done on them.
pub mod Lines
