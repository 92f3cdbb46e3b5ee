pub mod Letters
pub mod Parsing
pub mod Parts
pub mod Shrinking
pub mod Splitting
