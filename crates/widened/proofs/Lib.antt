pub mod Old
pub mod Widened
pub mod Refusals
pub mod Examples
