pub mod Pairs
pub mod Course
