pub mod Filtered
pub mod Pairs
pub mod Places
pub mod Monotone
pub mod Ordered
pub mod Unique
pub mod Same
