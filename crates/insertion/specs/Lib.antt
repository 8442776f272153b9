pub mod Kinds
pub mod Known
pub mod Promises
