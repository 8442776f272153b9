pub mod Chained
pub mod Little
