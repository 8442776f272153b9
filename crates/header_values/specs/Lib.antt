pub mod Kinds
pub mod Promises
pub mod Reading
pub mod Values
