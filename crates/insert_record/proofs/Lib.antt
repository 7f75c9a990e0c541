-- What a record does, case by case of what it asks for, and once its bytes are read.
pub mod Asked
pub mod Recorded
