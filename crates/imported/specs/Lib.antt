pub mod Acceptance
pub mod Build
pub mod Import
pub mod Refused
