pub mod Filling
pub mod Naming
