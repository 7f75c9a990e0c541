-- A call that needs no bytes leaves them; a line is answered.
pub mod Beside
pub mod Printed
