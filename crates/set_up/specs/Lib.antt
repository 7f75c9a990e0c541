-- What the code of set up writes, word by word, and what it refuses.
pub mod Fresh
