-- What the programs print of an answer, byte for byte.
pub mod Report
pub mod Answered
