-- A state in order, its picture, and the picture read back.
pub mod State
pub mod StateCells
pub mod Picture
pub mod ReadBack
