pub mod Order
pub mod Promises
pub mod Support
