pub mod Cells
pub mod Keys
pub mod Places
pub mod Prefixes
pub mod Stored
pub mod TextCells
pub mod Types
pub mod Views
