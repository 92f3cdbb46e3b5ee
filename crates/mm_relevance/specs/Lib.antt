pub mod Relevance
pub mod Walks
pub use Rattle.mm_query.specs.Queries
