-- What freeing the cells between the head and a new position asks and answers.
pub mod Between
