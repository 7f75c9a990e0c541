-- The layer between the meaning of calls and the code.
pub mod ReadState
