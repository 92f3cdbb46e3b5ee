pub mod Address
pub mod Bag
pub mod Chain
pub mod Pairs
pub mod Table
