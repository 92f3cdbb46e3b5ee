pub mod Cuts
pub mod Fronts
pub mod KeptBytes
pub mod Pieces
pub mod Readings
pub mod Runs
pub mod Tokens
