pub mod Children
pub mod Refusals
pub mod Steps
