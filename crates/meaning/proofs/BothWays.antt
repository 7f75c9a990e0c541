-- A buffer is a list if and only if every sentence holds.
pub mod SentencesRow
pub mod SentencesShape
pub mod Sentences
pub mod SweepSentences
pub mod ConverseKeys
pub mod ConverseRow
pub mod ConversePlaces
pub mod ConverseState
pub mod ConverseLinks
pub mod Converse
pub mod ShapeByKeys
