-- What the settings of a list are: Numbers, and the length from The words 1 (docs/REFERENCE.md).
pub mod Numbers
pub mod Base
pub mod Checked
pub mod Levels
