pub mod Edited
pub mod Grown
pub mod Laws
pub mod Links
pub mod Logged
pub mod Targets
