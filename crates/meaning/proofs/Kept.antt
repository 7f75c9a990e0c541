-- What each operation keeps of a state in order.
pub mod KeepsState
pub mod KeepsSetUp
pub mod KeepsFinish
pub mod KeepsTake
pub mod KeepsSweep
pub mod Slot
pub mod KeepsInsert
