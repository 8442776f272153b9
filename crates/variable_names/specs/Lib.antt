pub mod Names
pub mod Promises
pub mod Rest
