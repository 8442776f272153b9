pub mod HeaderSays
pub mod Lengths
pub mod NoValues
pub mod Faultless
pub mod Answers
pub mod Loading
pub mod Examples
