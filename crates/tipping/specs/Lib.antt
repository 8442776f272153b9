pub mod Course
pub mod Examples
pub mod Given
pub mod Lowest
pub mod Promises
pub mod Tip
pub mod Way
