pub mod Allowed
mod Asking
mod Bounds
pub mod Chosen
mod Explained
pub mod Fields
mod FirstWays
mod FoundRows
mod Growing
mod Joining
mod KeyOrder
mod KeyRows
mod Keyed
pub mod Named
pub mod NamedJoins
pub mod NamedSteps
mod NamesThere
pub mod Reached
mod Reading
pub mod Referred
mod SetEnds
mod Unjoined
