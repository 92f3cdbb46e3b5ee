pub mod RowLists
pub mod EditPairs
pub mod Bases
pub mod Joined
pub mod Orphans
pub mod Columns
