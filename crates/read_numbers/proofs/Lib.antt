pub mod Digits
pub mod Number
pub mod Refusals
pub mod Value
pub mod Words
