pub mod Names
pub mod Promises
pub mod Whole
pub mod WholeRules
