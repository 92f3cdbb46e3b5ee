pub mod Fields
mod Live
pub mod Only
mod Pieces
mod Placed
mod RowOrder
