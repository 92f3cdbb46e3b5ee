pub mod Counts
pub mod Ties
