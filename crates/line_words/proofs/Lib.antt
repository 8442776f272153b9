pub mod Refusals
pub mod WordEnds
