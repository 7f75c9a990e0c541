-- What the functions rest on, and what a customer may rely on.
pub mod Puts
pub mod Digits
pub mod Sums
pub mod Report
pub mod Answered
