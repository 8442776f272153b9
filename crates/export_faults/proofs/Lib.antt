pub mod Refusals
pub mod Roots
pub mod Tests
