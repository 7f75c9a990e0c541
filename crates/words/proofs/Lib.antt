-- What the shape of a list's words gives to whoever reads and writes them, and what a list gives.
pub mod Shaped
pub mod Listed
