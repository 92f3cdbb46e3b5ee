mod Halving
pub mod Parts
pub mod Leaves
pub mod Turning
pub mod Lowest
pub mod Meeting
pub mod Taken
pub mod Sizes
pub mod Between
pub mod Bound
pub mod Sought
pub mod Decides
pub mod Path
pub mod Reached
pub mod Walks
pub mod InPlace
