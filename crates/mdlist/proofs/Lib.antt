-- Laws of the exported functions.
pub mod Exported
