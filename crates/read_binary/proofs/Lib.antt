pub mod Decoded
pub mod Groups
pub mod Refusals
