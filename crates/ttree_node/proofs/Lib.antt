pub mod EntryLemmas
pub mod MaybeOwnerSteps
pub mod OwnerSteps
pub mod PathLemmas
pub mod SlideLemmas
