-- The class record: how many keys of each class are live, and the least of them.
pub mod Classes
pub mod Tallying
