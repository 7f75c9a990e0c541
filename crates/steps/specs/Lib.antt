-- What the walk's step asks.
pub mod Blocks
