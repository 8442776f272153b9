pub mod Each
pub mod Line
pub mod Spaced
pub mod Words
pub mod Left
