pub mod Examples
pub mod Functions
pub mod ListExample
pub mod LoadsBack
pub mod Promised
pub mod ReadBack
pub mod Starred
pub mod Turns
