pub mod Reached
pub mod Walk
pub mod Meet
pub mod Promises
