-- Laws for the proofs of read_file.
pub mod Putting
pub mod Reading
