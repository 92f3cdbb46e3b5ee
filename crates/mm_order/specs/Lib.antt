pub mod Order
pub mod Probe
pub mod Refs
pub mod Sought
