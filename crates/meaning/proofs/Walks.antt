-- The rule and the walk: the trail over a row, on the words, and where it rests; the way to the next smaller key.
pub mod Rule
pub mod WalkRow
pub mod WalkSteps
pub mod Walk
pub mod WalkStop
pub mod Smaller
pub mod Lower
