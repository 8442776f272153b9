pub mod Load
pub mod Calls
pub mod Outcome
pub mod Lists
pub mod Roots
pub mod Acceptance
pub mod Refusals
