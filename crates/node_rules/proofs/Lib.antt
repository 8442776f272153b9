pub mod Decided
pub mod Fit
