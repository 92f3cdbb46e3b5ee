pub mod NumberRows
pub mod TableRows
pub mod ListCounts
pub mod CaseSteps
pub mod Staging
