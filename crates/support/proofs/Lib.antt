pub mod Arranged
pub mod Ascending
pub mod ByPermid
pub mod Distinct
pub mod SupportAllowed
pub mod SupportExamples
