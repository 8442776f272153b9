pub mod LineBytes
pub mod LineCodes
pub mod LineLengths
pub mod Parts
