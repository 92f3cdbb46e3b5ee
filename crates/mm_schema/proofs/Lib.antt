pub mod AllReferences
mod CatalogLemmas
pub mod ChangedRows
pub mod Dues
pub mod DuplicateIndexes
pub mod Duplicates
pub mod InOrder
pub mod IndexLemmas
pub mod Instances
pub mod Keys
pub mod NameLemmas
pub mod Orderings
pub mod Places
pub mod References
pub mod StandingLemmas
pub mod StrictOrder
