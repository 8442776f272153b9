pub mod Positions
pub mod CodeByte
pub mod Examples
pub mod Refusals
