pub mod ChosenNames
pub mod Examples
pub mod Parts
pub mod Places
pub mod Short
pub mod Support
pub mod Variables
pub mod Writing
