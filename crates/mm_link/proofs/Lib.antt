pub mod Slots
pub mod Coming
pub mod Retying
pub mod Targets
pub mod Logged
pub mod SameRows
pub mod Referring
