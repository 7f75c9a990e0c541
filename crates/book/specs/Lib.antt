-- The book: what an ordered map would do.
pub mod Book
