pub mod Knowing
pub mod Runs
pub mod Equal
