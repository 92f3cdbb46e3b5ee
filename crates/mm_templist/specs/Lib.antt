pub mod Combos
pub mod Pieces
pub mod Results
pub mod Runs
pub mod Shown
