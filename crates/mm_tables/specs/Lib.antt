pub mod Edits
pub mod Commands
pub mod Log
pub mod Tables
