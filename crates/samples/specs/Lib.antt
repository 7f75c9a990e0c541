-- Sample buffers, made by calls, and what is printed for a row of the edges.
pub mod Samples
pub mod Printed
