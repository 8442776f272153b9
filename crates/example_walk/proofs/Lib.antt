pub mod Calling
pub mod Examples
pub mod First
pub mod Laws
pub mod Stepping
pub mod Taking
pub mod Walked
