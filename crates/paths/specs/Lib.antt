-- What a path struct holds, and on which words the code may go from cell to cell.
pub mod Paths
