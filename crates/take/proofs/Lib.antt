-- Going on from the position, and what a take leaves.
pub mod Taking
