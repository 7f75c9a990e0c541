-- The list of entries that the programs keep.
pub mod EntryList
