pub mod Counts
pub mod RowHash
pub mod Slots
pub mod Tally
