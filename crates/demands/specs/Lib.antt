pub mod Examples
pub mod LoadsBack
pub mod Starred
