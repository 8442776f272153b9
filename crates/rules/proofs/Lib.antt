pub mod Pass
pub mod Zeros
pub mod Parts
