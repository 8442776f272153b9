pub mod Course
pub mod Promises
