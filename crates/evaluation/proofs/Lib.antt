pub mod Walk
pub mod Evaluating
pub mod SettingBytes
