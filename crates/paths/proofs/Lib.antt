-- What goes from cell to cell on the words of a list, and what such words give.
pub mod Paths
pub mod Steps
pub mod Alike
pub mod Listed
pub mod Ways
