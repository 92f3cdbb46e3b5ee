pub mod Counts
pub mod Fills
pub mod Refills
