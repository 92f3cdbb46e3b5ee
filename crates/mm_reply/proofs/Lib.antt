pub mod Catalogs
pub mod Delivered
pub mod DueSteps
pub mod Flushed
pub mod Walks
