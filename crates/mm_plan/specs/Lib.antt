pub mod Begun
pub mod Choosing
pub mod Finding
pub mod Growing
pub mod Kept
pub mod Naming
pub mod ReadExamples
pub mod Steps
