-- What find answers, by what the search found.
pub mod Finding
