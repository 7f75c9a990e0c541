-- The operations with a class record beside the list: what each answers and leaves, sequences of them, and what is promised.
pub mod Counted
pub mod Calls
pub mod Promises
-- What stands below, for the code.
pub mod Checked
