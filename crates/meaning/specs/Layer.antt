-- The layer between the meaning and the code: what is written, word by word, how paths are followed, what the cells on a walk share with the
-- key sought, and what an inner function asks of the words. Contracts of inner functions cite it. No contract of an exported function does,
-- and one promise alone, of the words within a sweep (`OwedCellsStandInSweep`); what is proved of it here joins it to the meaning.
pub mod Listed
pub mod Near
pub mod Paths
pub mod Stores
pub mod SweepStores
