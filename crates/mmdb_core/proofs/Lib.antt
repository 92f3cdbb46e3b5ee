pub mod Answering
pub mod FeedLemmas
pub mod Inputs
pub mod LawLemmas
pub mod LongLines
pub mod Runs
