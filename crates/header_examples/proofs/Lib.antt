pub mod Decides
pub mod Limits
pub mod Computed
