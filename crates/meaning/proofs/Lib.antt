-- The laws of the definitions in specs/, in families (docs/MAP.md), in the order in which a reader meets them.
pub mod Rows
pub mod Pictures
pub mod Cells
pub mod Walks
pub mod Paths
pub mod Kept
pub mod Written
pub mod BothWays
pub mod Outcomes
pub mod Promised
pub mod Promises
