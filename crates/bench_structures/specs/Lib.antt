pub mod Apart
pub mod Keys
