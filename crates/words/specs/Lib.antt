-- When words have the shape of a list: what the accessors ask.
pub mod Shaped
