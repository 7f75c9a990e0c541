-- What the check's code rests on: laws of its account on the words, over plain words and numbers, and what its answer says of the words.
pub mod Answered
pub mod InOrder
pub mod Ends
