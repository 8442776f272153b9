pub mod Promises
pub mod Settled
