pub mod Text
pub mod Kinds
pub mod Examples
pub mod TextNumbers
