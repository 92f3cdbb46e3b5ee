pub mod MaybeOwned
