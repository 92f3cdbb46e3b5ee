pub mod AccessMethods
pub mod Caps
pub mod Entries
pub mod Equated
pub mod Joined
pub mod Joins
pub mod Keys
pub mod Reads
