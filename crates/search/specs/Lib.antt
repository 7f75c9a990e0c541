-- What the search knows when the walk has come to rest.
pub mod Found
