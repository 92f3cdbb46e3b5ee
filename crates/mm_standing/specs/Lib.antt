pub mod Bags
pub mod Queries
pub mod ReadExamples
pub mod Reads
pub mod Showing
pub mod State
