-- Contracts between the parts of the crate. No promise to callers depends on them.
pub mod Defined
pub mod Filled
pub mod Forms
pub mod Kept
pub mod Readings
pub mod Places
pub mod Templates
