pub mod Numbering
pub mod Support
pub mod Depths
pub mod Promises
