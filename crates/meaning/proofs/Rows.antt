-- Keys and rows: coordinates, what keys share, rows in order, places.
pub mod Keys
pub mod Blocks
pub mod AscendingRow
pub mod AscendingKeys
pub mod Put
pub mod Places
pub mod Parent
pub mod Nodes
