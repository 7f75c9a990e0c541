-- A new cell's words by its slot.
pub mod NewCell
