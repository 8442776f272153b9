pub mod EdgeList
pub mod Entries
pub mod Examples
pub mod Refusals
pub mod Touching
