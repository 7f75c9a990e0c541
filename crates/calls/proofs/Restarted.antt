-- A list over a restart: what reading a file leaves, and what is written.
pub mod ReadState
pub mod ReadIn
pub mod ReadInPath
pub mod Saved
pub mod Restart
