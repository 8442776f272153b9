pub mod OldLimits
pub mod Old
pub mod Widen
