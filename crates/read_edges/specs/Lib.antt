pub mod Edges
pub mod Entries
pub mod Examples
pub mod Kinds
