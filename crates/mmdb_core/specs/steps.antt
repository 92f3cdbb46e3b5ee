-- Definitions for the steps of a run, which connect parts of the code. The contract of a run does not use them.
pub mod Feeds
pub mod Input
pub mod Respond
pub mod Taken
pub mod Window
