pub mod Answers
pub mod Settings
