pub mod Export
pub mod Answered
pub mod Settings
