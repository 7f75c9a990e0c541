-- What the functions of the program logger rest on.
pub mod Input
