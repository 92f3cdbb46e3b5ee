pub mod Pieces
pub mod Progress
