pub mod Course
pub mod Example
pub mod Examples
pub mod First
pub mod Given
pub mod Promises
