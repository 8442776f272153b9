pub mod RecodeLevels
pub mod Taken
pub mod VariableLevels
