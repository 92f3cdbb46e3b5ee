pub mod Alike
pub mod Filling
pub mod Holes
pub mod Refilling
pub mod Texts
pub mod steps
