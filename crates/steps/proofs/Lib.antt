-- One step of the walk, what two keys share, and a walk under way.
pub mod Steps
pub mod Sharing
pub mod Walking
