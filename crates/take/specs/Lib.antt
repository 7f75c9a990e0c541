-- What a take finds ahead of the position.
pub mod Ahead
