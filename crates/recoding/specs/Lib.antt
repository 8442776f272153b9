pub mod Recode
pub mod Kinds
pub mod Promises
pub mod RecodeNumbers
