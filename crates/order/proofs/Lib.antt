-- What the functions of the order program rest on.
pub mod Input
