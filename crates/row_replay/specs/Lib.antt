-- What the replay keeps to, so that it is safe.
pub mod Kept
