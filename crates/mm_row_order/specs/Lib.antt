pub mod Refs
pub mod Orders
pub mod Keys
pub mod InOrder
pub mod Ends
pub mod Sorting
