pub mod RefusalOrder
pub mod Typing
