-- The samples, computed, and what the functions rest on.
pub mod Samples
pub mod Printed
