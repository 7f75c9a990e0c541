-- Lists of any members and of numbers: what the other definitions say of them.
pub mod Lists
pub mod Compared
pub mod Zeros
