-- What is held after a line: of an array with room for the most, and laws of the bytes that digits write.
pub mod Held
pub mod HexBytes
