pub mod Evaluation
pub mod Evaluated
pub mod Promises
pub mod SettingBytes
