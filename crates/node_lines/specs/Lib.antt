pub mod Decode
pub mod Kinds
pub mod Line
pub mod Says
