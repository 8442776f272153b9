pub mod Grown
pub mod Steps
pub mod Turns
pub mod FirstPairs
