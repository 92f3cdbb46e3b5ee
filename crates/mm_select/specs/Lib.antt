pub mod Accesses
pub mod Alone
pub mod Asked
pub mod Fitting
pub mod Matches
