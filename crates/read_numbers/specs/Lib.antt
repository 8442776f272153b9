pub mod Digits
pub mod Number
pub mod Value
pub mod Width
