-- What an ordered map would do, and what each call answers by it.
pub mod BookRow
pub mod BookOperations
pub mod BookCalls
pub mod BookPairs
pub mod Book
