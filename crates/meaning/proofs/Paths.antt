-- Paths: of a standing cell, the way through the keys in order, what a take passes, the path that the walk builds.
pub mod Path
pub mod PathNext
pub mod PathTake
pub mod PathWalk
