pub mod Cutting
pub mod steps
