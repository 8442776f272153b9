pub mod Steps
pub mod Passed
pub mod Copying
pub mod Stretched
