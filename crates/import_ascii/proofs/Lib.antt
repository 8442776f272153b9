pub mod Faults
pub mod TextLines
pub mod Examples
pub mod Refusals
