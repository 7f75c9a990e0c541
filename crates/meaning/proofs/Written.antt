-- What each operation writes, word by word.
pub mod FinishWords
pub mod TakeWords
pub mod InsertLinks
pub mod InsertSlot
pub mod InsertPut
pub mod InsertPath
pub mod InsertDebts
pub mod InsertWords
pub mod SweepRow
pub mod SweepStores
pub mod SweepFinish
pub mod SweepDrop
pub mod SweepWords
