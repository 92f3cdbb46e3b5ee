pub mod Binds
mod Bounds
mod Buffers
pub mod Due
mod Fews
pub mod FoundTables
pub mod FoundTargets
pub mod Noted
pub mod PlacedColumns
pub mod PlacedQueries
pub mod PlainEval
pub mod Storables
mod Tuples
pub mod Updates
pub mod Within
