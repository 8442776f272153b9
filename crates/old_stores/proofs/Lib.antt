pub mod Copying
pub mod Judging
