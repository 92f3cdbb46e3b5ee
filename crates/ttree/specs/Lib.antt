pub mod Balanced
pub mod Bound
pub mod Decides
pub mod Held
pub mod Lowest
pub mod Path
pub mod Searchable
pub mod Whole
