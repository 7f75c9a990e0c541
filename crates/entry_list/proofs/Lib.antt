-- What the list of entries is when it is set up.
pub mod EntryList
