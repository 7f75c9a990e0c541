-- What finishing asks of the cell whose debt is finished.
pub mod Payable
