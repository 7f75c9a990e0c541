-- What the records of an export do to the program's list, and what is taken from it.
pub mod Input
