-- Contracts between the parts of the crate. No promise to callers depends on them.
pub mod Reading
pub mod Running
