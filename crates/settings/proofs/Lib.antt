-- What holds of the base, the ranges, the keys and the length, how a rule is shown of a table, and what the checked constructor says.
pub mod Numbers
pub mod Table
pub mod Ranges
pub mod Powers
